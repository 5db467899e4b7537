pub mod Union
pub mod Asking
pub mod Growing
