pub mod Plays
pub mod Counts
pub mod Ranges
pub mod Shows
pub mod Ended
pub mod Orders
pub mod CaughtUp
