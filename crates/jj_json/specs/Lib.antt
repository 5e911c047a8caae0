pub mod Conversions
pub mod Records
pub mod Operations
