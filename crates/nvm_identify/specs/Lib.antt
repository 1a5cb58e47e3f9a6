pub mod Controller
pub mod Namespace
pub mod Place
