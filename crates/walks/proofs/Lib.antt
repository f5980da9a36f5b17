pub mod Depths
pub mod Gaps
pub mod Turns
pub mod Walks
