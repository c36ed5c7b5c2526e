pub mod Stops
pub mod Statuses
pub mod Messages
pub mod Told
pub mod Played
pub mod Laws
