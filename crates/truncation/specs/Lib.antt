pub mod Truncate
pub mod Examples
