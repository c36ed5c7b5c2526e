pub mod Asking
pub mod Marks
pub mod Probing
pub mod Laws
