pub mod Children
pub mod Joining
pub mod Merging
pub mod Passing
pub mod PassedNames
pub mod Rounds
pub mod Conflicting
pub mod PresentTrees
pub mod Roots
mod MemoryObjectLemmas
pub mod SameRecords
pub mod StoredTries
pub mod TrieValues
pub mod NodeWrites
pub mod ChosenValues
pub mod MergedPaths
