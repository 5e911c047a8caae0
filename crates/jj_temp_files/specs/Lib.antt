pub mod Identities
pub mod TempNames
pub mod Persisting
pub mod Checks
pub mod WriteErrors
pub mod Crashes
pub mod WrappedFiles
