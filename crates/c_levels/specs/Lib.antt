pub mod LevelEntry
