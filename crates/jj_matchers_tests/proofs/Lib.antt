pub mod FoundFiles
pub mod Prefixes
pub mod OneGlob
pub mod TopLevel
