pub mod StrengthEntry
