-- What the search tells its callers, and its functions each other.
pub mod Ends
pub mod Found
