pub mod Turns
pub mod Kept
pub mod Lent
pub mod Inner
pub mod Examples
pub mod Numbers
