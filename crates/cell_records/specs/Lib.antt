pub mod CellRecord
pub mod CellRecordLaws
