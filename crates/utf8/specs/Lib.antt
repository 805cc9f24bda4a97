pub mod Grammar
pub mod Scalar
pub mod State
pub mod Ascii
pub mod Examples
