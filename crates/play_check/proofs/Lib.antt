pub mod Dues
pub mod Orders
pub mod Walks
pub mod Ends
pub mod Histories
