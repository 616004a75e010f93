pub mod Taps
pub mod WideFilter
pub mod WideSums
pub mod WideFilterLaws
pub mod WideFilterStandard
