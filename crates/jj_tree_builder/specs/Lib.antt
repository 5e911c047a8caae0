pub mod Changes
pub mod PendingChanges
