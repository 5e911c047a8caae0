mod ReportedLines
pub mod InMemory
pub mod InputFailures
