pub mod Changes
pub mod Pair
pub mod Slot
pub mod Parts
pub mod Told
