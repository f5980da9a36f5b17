-- What code decides before it writes, and how a step is done to rows: no promise of a public call is stated by it.
pub mod Deciding
pub mod Admitting
