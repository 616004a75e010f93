pub mod KeyLine
pub mod KeyLineLaws
pub mod Lanes
pub mod LanesLaws
