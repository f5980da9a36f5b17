pub mod Worths
pub mod Kept
pub mod Fills
