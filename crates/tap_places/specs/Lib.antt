pub mod Lendable
pub mod Near
pub mod TurnLaws
