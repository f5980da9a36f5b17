pub mod Ledger
pub mod Lent
pub mod Kept
pub mod Source
pub mod Examples
