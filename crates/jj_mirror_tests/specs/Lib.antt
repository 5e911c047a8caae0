pub mod Truncations
