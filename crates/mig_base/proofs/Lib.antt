pub mod CountLemmas
pub mod ListLemmas
pub mod StreamSteps
pub mod WriteLemmas
