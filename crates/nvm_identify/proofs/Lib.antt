pub mod ControllerLemmas
pub mod NamespaceLemmas
pub mod PlaceLemmas
