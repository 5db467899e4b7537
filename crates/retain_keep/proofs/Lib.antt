pub mod Holding
pub mod Placing
pub mod Retaining
pub mod Lending
pub mod Recounting
pub mod Changing
pub mod Standing
pub mod Headers
