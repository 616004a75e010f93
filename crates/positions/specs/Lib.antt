pub mod Positions
pub mod PositionsLaws
pub mod PositionsStandard
