pub mod Puts
pub mod PutsLaws
pub mod Text
pub mod TextLaws
