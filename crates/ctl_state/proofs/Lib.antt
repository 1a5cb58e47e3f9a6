pub mod AdminLemmas
pub mod FollowsLemmas
pub mod ImageLemmas
pub mod PairLemmas
