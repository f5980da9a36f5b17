pub mod Streams
pub mod Channel
pub mod Reading
pub mod Examples
