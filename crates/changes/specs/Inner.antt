-- What code does in the place of building a list anew: no promise of a public call is stated by it.
pub mod Edits
