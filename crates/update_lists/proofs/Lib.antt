pub mod Rising
pub mod MarkTable
pub mod Copying
