pub mod Fronts
pub mod Listings
pub mod Once
pub mod Plans
pub mod Ranges
pub mod Runs
pub mod Weaves
