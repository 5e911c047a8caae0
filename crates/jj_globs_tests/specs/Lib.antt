pub mod Selected
pub mod Spelled
