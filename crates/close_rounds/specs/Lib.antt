pub mod Running
pub mod Rounds
