pub mod Admin
pub mod Bounds
pub mod Controller
pub mod Image
pub mod Parts
