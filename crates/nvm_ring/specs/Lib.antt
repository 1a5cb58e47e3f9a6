pub mod Places
pub mod Moves
pub mod Stands
pub mod Queues
