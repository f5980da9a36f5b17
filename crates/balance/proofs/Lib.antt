-- Laws, and the theorems of specs/Balance.antt.
pub mod Fills
pub mod Accounts
pub mod Remainders
pub mod Balance
