pub mod WordBytes
pub mod WordBytesLaws
