pub mod Items
pub mod Words
pub mod Turn
pub mod Notes
pub mod Rule
pub mod Plays
