pub mod FrameLists
pub mod TableStandard
pub mod PassStandard
