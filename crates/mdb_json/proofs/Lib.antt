pub mod Depths
pub mod Floats
pub mod Objects
mod Words
