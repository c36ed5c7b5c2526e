pub mod Tables
pub mod Ways
pub mod Extents
pub mod Listed
pub mod Working
pub mod Undoing
pub mod Settling
pub mod Refusals
