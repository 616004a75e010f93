pub mod LevelLookup
pub mod LevelLookupLaws
