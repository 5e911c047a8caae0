pub mod Imported
pub mod Stored
pub mod AppliedChanges
pub mod ImportStates
pub mod ImportedCommands
pub mod RefNames
