pub mod CallLemmas
pub mod NamespaceLaws
pub mod NamespaceLemmas
pub mod ShelvesLemmas
