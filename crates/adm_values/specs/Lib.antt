pub mod Command
pub mod Kinds
