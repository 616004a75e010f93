pub mod DecidedStandard
pub mod PassStandard
