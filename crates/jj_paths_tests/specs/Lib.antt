pub mod Notes
pub mod PathErrors
pub mod EmptyDirs
pub mod Ways
