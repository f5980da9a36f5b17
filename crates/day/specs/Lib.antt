pub mod Day
pub mod Meaning
pub mod Numbers
pub mod Examples
