pub mod Plan
pub mod Examples
