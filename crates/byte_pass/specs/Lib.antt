pub mod ChunkKeys
pub mod ChunkKeysLaws
