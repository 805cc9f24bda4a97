pub mod Chain
pub mod Link
pub mod Examples
