pub mod Whole
pub mod Reading
pub mod Bytes
pub mod Writing
pub mod Sent
