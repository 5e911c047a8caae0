-- in reading order
pub mod Hunks
pub mod Rows
pub mod Comparisons
pub mod Files
pub mod Measures
