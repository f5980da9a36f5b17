pub mod Books
pub mod Bests
pub mod Kept
pub mod Steps
