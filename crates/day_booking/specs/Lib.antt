pub mod Days
pub mod Inner
pub mod Examples
