pub mod Buffer
pub mod Halving
pub mod Victims
pub mod Moving
pub mod Closing
