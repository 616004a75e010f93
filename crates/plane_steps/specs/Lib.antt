pub mod PlaneLines
pub mod PlaneSteps
