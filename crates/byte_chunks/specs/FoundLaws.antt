-- A fold that looks for a test at each element.
pub use Rattle.byte_lanes.specs.FoundLaws.{fold_found}
