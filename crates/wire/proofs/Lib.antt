pub mod Bytes
pub mod Taken
pub mod Places
pub mod Spelling
pub mod Back
