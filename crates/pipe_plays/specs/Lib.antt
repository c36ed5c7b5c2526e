pub mod Plays
pub mod Played
pub mod Laws
pub mod Orders
pub mod CaughtUp
