pub mod Order
pub mod Shown
pub mod Steps
pub mod Joints
pub mod Items
pub mod Kept
pub mod Lists
pub mod Listed
