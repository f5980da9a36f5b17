pub mod Prices
pub mod Finds
pub mod Ticks
