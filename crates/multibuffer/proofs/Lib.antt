pub mod Slotted
pub mod Handing
pub mod Taking
