pub mod Books
pub mod Memory
