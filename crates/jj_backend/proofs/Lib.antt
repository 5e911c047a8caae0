pub mod MergedParts
pub mod MergedTreeValues
pub mod BinarySearch
pub mod SortedEntries
pub mod UnsortedEntries
