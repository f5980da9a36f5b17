pub mod Chunks
pub mod Kept
