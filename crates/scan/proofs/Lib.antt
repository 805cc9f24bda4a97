pub mod Steps
pub mod Walks
pub mod Goods
pub mod Written
