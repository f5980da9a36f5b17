pub mod Holding
pub mod Rows
pub mod Lent
pub mod Source
pub mod Inner
