pub mod Writes
pub mod Outcomes
pub mod Recorded
