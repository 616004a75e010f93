pub mod Stands
pub mod RowCopies
pub mod Spread
pub mod SpreadLaws
pub mod RowCopiesLaws
pub mod PlainRunLaws
pub mod Local
pub mod LaneRunLaws
