pub mod Means
pub mod Mixing
pub mod Quotients
pub mod Spans
pub mod Sums
