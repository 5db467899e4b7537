pub mod Good
pub mod Stood
