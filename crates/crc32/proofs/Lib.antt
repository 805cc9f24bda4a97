pub mod Xor
pub mod Linear
pub mod Register
