pub mod ShelfState
pub mod Work
pub mod Namespace
pub mod Shelves
