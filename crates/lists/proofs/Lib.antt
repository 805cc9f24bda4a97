pub mod EntryRecords
pub mod TransactionRecords
pub mod Tallies
pub mod Numbers
pub mod Noting
pub mod Books
