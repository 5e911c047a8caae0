-- in reading order
pub mod Lines
pub mod Scripts
pub mod Hunks
pub mod Names
pub mod PatchText
pub mod Applying
pub mod Views
pub mod Words
pub mod GitDiffs
