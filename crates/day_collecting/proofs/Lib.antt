pub mod Texts
pub mod Few
