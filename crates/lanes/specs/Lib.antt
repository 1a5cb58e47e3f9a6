pub mod Guest
pub mod Parts
