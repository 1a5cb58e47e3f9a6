pub mod EndText
pub mod Ending
pub mod Hosts
