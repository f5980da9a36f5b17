-- What the functions of this crate work on, which no reader needs to believe.
pub mod Bytes
