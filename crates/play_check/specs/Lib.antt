pub mod Lines
pub mod Orders
pub mod Stuck
pub mod Laws
