pub mod Gate
pub mod Examples
