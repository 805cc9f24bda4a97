pub mod Log
pub mod Payload
pub mod Recover
pub mod Checkpoint
pub mod Reach
pub mod Examples
