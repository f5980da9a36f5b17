pub mod Frames
pub mod Decode
pub mod Sent
pub mod OneLine
pub mod Inner
pub mod Examples
