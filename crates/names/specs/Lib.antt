pub mod Decimal
pub mod Name
pub mod Examples
