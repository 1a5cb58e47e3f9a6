pub mod PlaceLemmas
pub mod CellLemmas
pub mod ChainLemmas
pub mod PieceLemmas
pub mod ShelfLemmas
pub mod MediaLemmas
pub mod LaneLemmas
