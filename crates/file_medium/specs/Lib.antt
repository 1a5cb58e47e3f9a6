pub mod FaultText
pub mod Part
