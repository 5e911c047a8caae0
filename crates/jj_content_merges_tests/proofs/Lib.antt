pub mod Merges
pub mod Starts
