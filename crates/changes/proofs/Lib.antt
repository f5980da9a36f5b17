pub mod Changes
pub mod Edits
pub mod Rows
pub mod Places
pub mod Shifts
