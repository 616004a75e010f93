pub mod LineStandard
pub mod LineWidths
