pub mod CommandLemmas
pub mod MadeLemmas
pub mod NumberLemmas
