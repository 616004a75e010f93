pub mod LevelLaws
pub mod LevelTableLaws
