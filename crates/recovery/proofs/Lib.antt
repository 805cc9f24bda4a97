pub mod Reaches
pub mod Ends
pub mod Concludes
pub mod Accepts
pub mod EntriesIn
pub mod Depends
pub mod Enough
