pub mod Extensions
pub mod MovedFiles
pub mod AppliedLater
pub mod NamedCommits
pub mod States
pub mod AppliedSteps
pub mod ImportedRuns
