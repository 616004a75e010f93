pub mod Rows
pub mod RowsLaws
pub mod Turn
pub mod TurnLaws
