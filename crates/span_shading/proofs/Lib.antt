pub mod Beside
pub mod Between
pub mod Means
pub mod Sizes
pub mod Words
