pub mod Book
pub mod Apply
pub mod Kept
pub mod Lent
pub mod Inner
pub mod Examples
pub mod Deltas
