pub mod SheetEntry
