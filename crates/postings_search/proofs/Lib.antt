pub mod Standing
pub mod Searching
