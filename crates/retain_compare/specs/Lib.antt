pub mod Passes
pub mod Compared
pub mod Turns
