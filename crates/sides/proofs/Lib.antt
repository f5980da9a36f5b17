pub mod Bests
pub mod Volumes
