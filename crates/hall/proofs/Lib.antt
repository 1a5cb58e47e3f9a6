pub mod AheadLaws
pub mod LaneLaws
pub mod PlanLemmas
