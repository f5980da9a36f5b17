-- How a day that is kept is printed.
pub mod Opened
