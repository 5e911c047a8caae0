pub mod FileTerms
pub mod Contents
pub mod Resolutions
pub mod Markings
pub mod MergedTrees
