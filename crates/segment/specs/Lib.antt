pub mod Writing
pub mod Examples
