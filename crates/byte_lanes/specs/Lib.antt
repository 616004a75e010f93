pub mod FoundLaws
pub mod ByteLanes
pub mod ByteLanesLaws
