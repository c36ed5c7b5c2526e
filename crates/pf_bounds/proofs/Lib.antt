pub mod Weights
pub mod Culling
