pub mod WordLemmas
pub mod ReadLemmas
pub mod SizeLemmas
pub mod FileLemmas
pub mod NamespaceLemmas
pub mod TopLemmas
pub mod CheckLemmas
