pub mod Fitting
pub mod Calling
pub mod Leaving
pub mod Repeating
