pub mod Order
pub mod Grid
pub mod Walk
