pub mod Climbing
pub mod Parts
pub mod Proposing
