pub mod Parts
pub mod Proposed
