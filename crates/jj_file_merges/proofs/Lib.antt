pub mod Zips
pub mod Growth
pub mod Outcomes
