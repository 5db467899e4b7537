pub mod Fit
pub mod Calls
pub mod Repeats
