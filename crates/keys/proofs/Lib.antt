pub mod EdgeLimitsLaws
pub mod KeysLaws
pub mod FetchedLaws
pub mod KeyedLaws
