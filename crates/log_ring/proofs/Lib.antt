pub mod Cells
pub mod Positions
pub mod Opens
pub mod Steps
pub mod Lasts
pub mod Closes
