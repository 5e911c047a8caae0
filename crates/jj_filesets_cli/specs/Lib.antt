pub mod CommandLines
pub mod Runs
pub mod InMemory
