pub mod Lists
pub mod PlaceLemmas
pub mod Looks
pub mod Draws
pub mod Posts
pub mod Seats
pub mod Ends
