pub mod Divided
pub mod Passed
