-- Laws that belong to no one function.
pub mod Ledgers
pub mod Kept
pub mod Once
pub mod Sources
