pub mod Pieces
pub mod Reading
pub mod Given
pub mod Plays
pub mod Feeding
