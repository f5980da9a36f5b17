-- Laws that belong to no one function.
pub mod Holdings
pub mod Averages
pub mod Stays
pub mod Places
pub mod Sources
