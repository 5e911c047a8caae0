-- in reading order
pub mod Lines
pub mod Markers
pub mod Contents
pub mod Rendering
pub mod Parsing
pub mod Views
pub mod Conditions
