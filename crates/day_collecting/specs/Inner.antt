-- What is kept of the text of a day.
pub mod Collecting
