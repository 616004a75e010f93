pub mod Stencil
pub mod StencilLaws
pub mod Window
pub mod WindowLaws
pub mod SampleLaws
pub mod InsideRun
pub mod Reach
pub mod RangeLaws
