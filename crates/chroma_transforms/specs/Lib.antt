pub mod ChromaTransforms
pub mod ChromaTransformsLaws
pub mod ChromaTransformsStandard
