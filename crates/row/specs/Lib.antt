pub mod Row
pub mod RowLaws
pub mod RowStandard
pub mod RowLists
