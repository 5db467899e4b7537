pub mod Laws
pub mod Counting
pub mod Payments
