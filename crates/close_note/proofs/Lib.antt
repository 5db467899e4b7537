pub mod Undecided
pub mod Logging
pub mod Marked
pub mod Gathering
