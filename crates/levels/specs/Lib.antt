pub mod Order
pub mod Inner
pub mod Table
pub mod Formed
pub mod Change
pub mod Examples
pub mod Lent
