pub mod CheckLemmas
pub mod CutLemmas
