pub mod Marks
pub mod Taking
