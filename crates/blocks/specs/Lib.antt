pub mod BlockSizes
pub mod BlockSizesLaws
pub mod ModeInfo
pub mod ModeInfoLaws
pub mod BlocksStandard
