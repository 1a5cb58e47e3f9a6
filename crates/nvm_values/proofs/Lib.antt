pub mod CqeLemmas
pub mod PlaceLemmas
pub mod SqeLemmas
