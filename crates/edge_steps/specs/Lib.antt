pub mod SuperblockFilter
pub mod FilterSize
pub mod ScreenLaws
pub mod StepsStandard
