pub mod Words
pub mod ActWords
pub mod Keys
pub mod Lines
pub mod BadLine
pub mod Reads
pub mod Writing
