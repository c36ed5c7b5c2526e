pub mod Drawings
pub mod Fragments
pub mod Instances
pub mod Rows
pub mod Shapes
pub mod Walking
