pub mod Answers
pub mod Writing
pub mod Recovering
pub mod Checkpoints
pub mod Naming
pub mod HouseRecords
pub mod Decoding
pub mod Examples
