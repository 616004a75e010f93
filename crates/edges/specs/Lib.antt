pub mod Edge
pub mod EdgeStandard
pub mod EdgeLaws
