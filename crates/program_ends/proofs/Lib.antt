mod Telling
pub mod Left
