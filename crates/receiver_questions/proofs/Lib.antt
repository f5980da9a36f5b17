pub mod Gates
pub mod Gated
