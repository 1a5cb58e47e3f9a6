pub mod Merge
pub mod Closed
