pub mod Ends
pub mod Lines
pub mod WholeFields
pub mod Ranges
pub mod Refined
pub mod Shared
pub mod Tokens
pub mod TokenRanges
