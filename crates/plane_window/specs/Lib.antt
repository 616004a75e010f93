pub mod PlaneWindow
