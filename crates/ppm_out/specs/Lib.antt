pub mod Pixmap
pub mod Bands
pub mod Ppm
