pub mod MergeLaws
pub mod OrderLaws
pub mod HallLaws
