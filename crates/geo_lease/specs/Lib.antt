pub mod Plans
pub mod Views
pub mod LeaseRule
pub mod Steps
pub mod Calls
pub mod Tokens
