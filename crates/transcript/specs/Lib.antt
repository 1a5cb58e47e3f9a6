pub mod Reading
pub mod Guess
