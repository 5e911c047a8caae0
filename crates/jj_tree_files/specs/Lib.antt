pub mod Walks
pub mod Walked
pub mod Listings
pub mod Differences
