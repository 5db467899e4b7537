pub mod Receiving
pub mod Transfer
pub mod Handing
pub mod Ends
