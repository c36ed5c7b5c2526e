pub mod Changes
pub mod Effects
pub mod Relinks
pub mod Parents
pub mod Tables
