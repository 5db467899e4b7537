pub mod Turns
pub mod Standing
pub mod Closed
