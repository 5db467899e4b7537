pub mod Reading
pub mod Searching
pub mod Repeating
