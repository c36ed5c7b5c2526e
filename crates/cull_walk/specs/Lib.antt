pub mod Culling
pub mod Working
pub mod Premises
