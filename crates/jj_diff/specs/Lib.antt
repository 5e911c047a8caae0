-- in reading order
pub mod Inputs
pub mod Tokens
pub mod Tokenizers
pub mod Whitespace
pub mod Compare
pub mod Ranges
pub mod Ends
pub mod Anchors
pub mod Hunks
pub mod Refined
