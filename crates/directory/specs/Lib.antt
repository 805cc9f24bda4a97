pub mod Lent
pub mod Record
pub mod Rule
pub mod Image
pub mod Examples
