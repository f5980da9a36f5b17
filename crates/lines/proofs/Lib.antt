pub mod Rows
pub mod Booked
pub mod AnyLine
pub mod Once
