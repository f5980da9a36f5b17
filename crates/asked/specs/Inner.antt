-- The questions of each kind, each by its clause of the definitions.
pub mod Kinds
