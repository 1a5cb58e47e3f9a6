pub mod State
pub mod Covered
pub mod Does
pub mod Room
