pub mod Delta
pub mod Inner
