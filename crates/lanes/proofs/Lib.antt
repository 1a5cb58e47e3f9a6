pub mod GuestLemmas
pub mod StartLemmas
pub mod KeptLemmas
