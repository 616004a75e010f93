pub mod Refusals
pub mod OrderOfWork
