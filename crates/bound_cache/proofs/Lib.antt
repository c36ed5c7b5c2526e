pub mod Fills
pub mod Parts
pub mod Marking
pub mod Settling
pub mod Visiting
pub mod Cleaning
