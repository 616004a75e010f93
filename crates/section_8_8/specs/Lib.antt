pub mod LoopFilterProcess
pub mod Examples
pub mod TapsInPlane
