pub mod Numberings
pub mod Histories
pub mod Orders
pub mod ReadOrders
