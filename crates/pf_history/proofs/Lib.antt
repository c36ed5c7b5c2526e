pub mod Lists
pub mod Folds
pub mod Turns
pub mod Fitting
pub mod Copying
pub mod Freeing
pub mod Counting
pub mod Cutting
pub mod Props
pub mod Reach
pub mod Arrays
pub mod Away
pub mod Channels
mod Rows
