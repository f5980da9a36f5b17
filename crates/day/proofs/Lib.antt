pub mod Numbers
pub mod Back
pub mod Steps
pub mod Meaning
pub mod Once
