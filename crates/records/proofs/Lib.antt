pub mod Stores
pub mod Dense
pub mod Sorted
pub mod Halving
