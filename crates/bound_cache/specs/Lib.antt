pub mod Caches
pub mod Tables
pub mod Sizes
pub mod Views
