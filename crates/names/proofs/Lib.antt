pub mod Digits
pub mod Numerals
pub mod Writing
pub mod Reading
