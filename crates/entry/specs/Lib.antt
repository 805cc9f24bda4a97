pub mod Parts
pub mod Decode
pub mod Readings
