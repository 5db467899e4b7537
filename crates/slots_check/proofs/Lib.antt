pub mod Codes
pub mod Groups
pub mod Climbs
pub mod Slot
pub mod Loops
pub mod Ways
