pub mod Asks
pub mod Move
pub mod Owed
pub mod Parts
pub mod Port
pub mod Round
pub mod Work
