pub mod SheetLines
pub mod LineLaws
