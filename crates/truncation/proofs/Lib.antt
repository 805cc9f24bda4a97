pub mod Scans
pub mod Closing
pub mod Truncates
