pub mod Link
pub mod Lists
pub mod Ends
