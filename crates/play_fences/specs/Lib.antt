pub mod Fences
pub mod Unsynced
pub mod Freed
pub mod Rests
pub mod Laws
