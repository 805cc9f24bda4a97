pub mod Step
pub mod Walk
pub mod Read
pub mod Highest
pub mod Examples
