pub mod WideSums
pub mod SideSums
pub mod WideFilterStandard
pub mod Sides
