pub mod Cqe
pub mod Op
pub mod Sqe
pub mod Status
