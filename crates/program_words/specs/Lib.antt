pub mod Usage
pub mod Probes
pub mod Meaning
pub mod Lefts
