pub mod Names
pub mod Kinds
