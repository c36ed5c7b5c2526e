pub mod Batches
pub mod Scenes
pub mod Worlds
pub mod Stock
pub mod Counts
pub mod Frames
pub mod Acts
