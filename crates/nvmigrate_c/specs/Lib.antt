pub mod Admin
pub mod Entries
pub mod Judged
pub mod Layout
pub mod Parts
pub mod Queues
pub mod Rings
