pub mod Listed
pub mod Numbered
pub mod Inner
pub mod Examples
