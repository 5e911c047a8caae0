pub mod CommitGraphs
pub mod Numberings
