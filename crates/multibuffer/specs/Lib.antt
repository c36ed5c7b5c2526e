pub mod Slots
pub mod StageCopies
