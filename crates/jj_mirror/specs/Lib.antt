pub mod Entries
pub mod Objects
pub mod Logs
pub mod Replays
pub mod Writes
