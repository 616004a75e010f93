pub mod Strength
pub mod StrengthLaws
pub mod StrengthStandard
