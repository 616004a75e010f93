pub mod Border
pub mod BorderLaws
