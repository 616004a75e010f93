pub mod Levels
pub mod LevelsStandard
pub mod LevelTableLaws
