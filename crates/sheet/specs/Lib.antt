pub mod Sheet
pub mod SheetAnswers
pub mod SheetFits
pub mod SheetLaws
