pub mod Decision
pub mod DecisionLaws
pub mod LevellessLaws
