pub mod Best
pub mod Inner
pub mod Questions
pub mod OnePrice
pub mod Examples
