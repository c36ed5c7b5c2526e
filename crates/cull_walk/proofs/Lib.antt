mod Corners
mod Sight
mod Drawing
mod OneOrder
mod Pruning
mod Unkept
mod Adding
mod Own
mod Exact
mod Walking
mod Whole
pub mod Rooms
