-- Laws that belong to no one function.
pub mod Listed
pub mod Measures
pub mod Totals
