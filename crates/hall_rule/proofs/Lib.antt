pub mod Lists
pub mod Packs
pub mod Turns
pub mod Notes
pub mod Keeps
