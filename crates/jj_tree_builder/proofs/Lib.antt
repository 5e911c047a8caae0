pub mod ChangedFiles
pub mod EntryMaps
