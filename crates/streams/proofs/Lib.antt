pub mod Splits
pub mod Damage
pub mod Channel
