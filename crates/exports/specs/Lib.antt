pub mod Layouts
pub mod Ledgers
pub mod Feeds
pub mod Receivers
pub mod Examples
