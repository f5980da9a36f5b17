pub mod Senders
pub mod Follows
pub mod Agrees
pub mod Examples
