pub mod Crossings
pub mod Crossed
pub mod Segments
pub mod Touch
pub mod Ways
pub mod Nearest
pub mod Working
