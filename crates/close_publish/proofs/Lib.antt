pub mod Ending
pub mod Deciding
pub mod Publishing
pub mod Standing
pub mod Acting
pub mod Closed
