pub mod Narrow
pub mod Seen
pub mod Small
pub mod Steps
pub mod Weights
