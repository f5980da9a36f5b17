-- What is kept of the lines of a day.
pub mod Keeping
