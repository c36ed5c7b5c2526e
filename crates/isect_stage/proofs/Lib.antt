pub mod Places
pub mod Founds
pub mod Keeping
pub mod Histories
pub mod ProbeKept
pub mod Marking
pub mod Links
