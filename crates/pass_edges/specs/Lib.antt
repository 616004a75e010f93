pub mod PassEdges
pub mod PassEdgesLaws
pub mod PassEdgesStandard
