pub mod Entries
pub mod Frames
pub mod Reports
pub mod Probes
