pub mod Known
mod Reaching
