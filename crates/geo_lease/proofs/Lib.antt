pub mod Granting
pub mod Lists
pub mod Rows
pub mod Rules
pub mod Swaps
pub mod Tracking
