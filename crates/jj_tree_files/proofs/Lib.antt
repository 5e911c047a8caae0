pub mod Walked
pub mod Listed
pub mod Differing
