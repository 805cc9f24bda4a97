pub mod Row
pub mod Table
pub mod Change
pub mod Examples
