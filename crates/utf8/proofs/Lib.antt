pub mod Holds
pub mod Stretch
pub mod Turn
pub mod Ascii
pub mod Grammar
pub mod Scalar
