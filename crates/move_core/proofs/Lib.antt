pub mod RoomLemmas
pub mod CoverLemmas
