pub mod Dense
pub mod Sorted
pub mod Halving
pub mod Moves
pub mod Examples
