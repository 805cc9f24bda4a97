pub mod Walker
pub mod Readings
pub mod Examples
