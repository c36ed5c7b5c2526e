pub mod Counts
pub mod Halves
pub mod Views
mod Rows
