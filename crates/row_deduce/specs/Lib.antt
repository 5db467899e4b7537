pub mod Chunks
pub mod Walks
pub mod Publication
