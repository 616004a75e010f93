pub mod KeptLaws
pub mod KeyRunLaws
pub mod CellRunLaws
pub mod RunsLaws
pub mod AllRuns
pub mod CellWalk
