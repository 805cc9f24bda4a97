pub mod Entries
pub mod Markers
pub mod Transactions
pub mod Tally
pub mod Admit
pub mod Examples
