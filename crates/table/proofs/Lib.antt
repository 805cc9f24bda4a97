pub mod Rows
pub mod Within
pub mod Tables
pub mod Lookups
pub mod Live
