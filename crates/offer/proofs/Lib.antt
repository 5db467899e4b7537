pub mod Fitting
pub mod Offering
