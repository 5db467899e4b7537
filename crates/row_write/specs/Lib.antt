pub mod Counts
pub mod Forms
pub mod Packs
