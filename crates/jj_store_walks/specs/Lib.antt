pub mod ReadCommits
pub mod ReadResults
pub mod Logs
pub mod Histories
pub mod HistoryItems
