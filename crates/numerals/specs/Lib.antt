pub mod Numerals
pub mod Inner
pub mod Examples
