pub mod Crossed
pub mod CommonPoints
pub mod Touching
pub mod Corners
pub mod Folding
pub mod Along
pub mod Exact
pub mod Walking
