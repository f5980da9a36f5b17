-- What only code and proofs speak of.
pub mod Runs
pub mod Plans
pub mod Fronts
