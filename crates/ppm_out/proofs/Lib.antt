mod Places
mod Joined
mod Blackness
mod Sending
pub mod InBands
pub mod Pictures
