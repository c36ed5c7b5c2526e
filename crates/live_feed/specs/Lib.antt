-- To be believed: what a feed was given and gave.
pub mod Feeds
pub mod Laws
