pub mod RecordRow
pub mod RecordRowLaws
