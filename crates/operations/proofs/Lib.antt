pub mod Tests
pub mod Making
pub mod Taking
pub mod Hitting
pub mod Deducing
pub mod Deciding
