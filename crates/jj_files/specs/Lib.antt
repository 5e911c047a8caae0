pub mod Streams
pub mod WatchedFields
pub mod Causes
pub mod PathErrors
pub mod PathJoining
pub mod HomeExpansion
pub mod Directories
pub mod PathComponents
