pub mod Places
pub mod Rule
pub mod Plays
