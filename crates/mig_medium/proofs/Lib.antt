pub mod BlockSteps
