pub mod WrittenFiles
pub mod BatchedEntries
