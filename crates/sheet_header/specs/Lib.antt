pub mod SheetHeader
pub mod SheetHeaderLaws
