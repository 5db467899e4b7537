pub mod Steps
pub mod Filling
pub mod Searching
