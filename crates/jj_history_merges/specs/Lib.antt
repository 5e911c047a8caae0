pub mod CommitMerges
