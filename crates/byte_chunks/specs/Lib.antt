pub mod Chunk
pub mod FoundLaws
pub mod ChunkLaws
