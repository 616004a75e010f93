pub mod RecordPass
pub mod RecordPassLaws
