pub mod Counts
pub mod Logs
pub mod Turning
pub mod Sharing
pub mod Told
