pub mod Coordinates
pub mod CoordinatesLaws
pub mod Frame
pub mod FrameLaws
pub mod FrameStandard
