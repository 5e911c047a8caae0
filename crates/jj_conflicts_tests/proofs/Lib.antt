pub mod MergedLines
