pub mod Compare
pub mod Including
pub mod Subsuming
