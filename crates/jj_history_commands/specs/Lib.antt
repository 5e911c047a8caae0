pub mod Operands
pub mod FileSets
pub mod FoundObjects
