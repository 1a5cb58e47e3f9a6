pub mod LineLemmas
pub mod StageLemmas
pub mod VerdictLemmas
pub mod VerdictLaws
pub mod PieceLemmas
pub mod LaneLemmas
pub mod WorldLemmas
