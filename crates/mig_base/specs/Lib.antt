pub mod Adapter
pub mod Count
pub mod Memory
pub mod Stream
