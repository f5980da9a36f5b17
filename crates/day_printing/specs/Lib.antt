pub mod Booked
pub mod Examples
