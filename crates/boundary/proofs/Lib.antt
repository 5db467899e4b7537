pub mod Leaving
pub mod Keeping
pub mod Calling
pub mod LearningKeeps
pub mod LearningCalls
pub mod SharingKeeps
pub mod SharingCalls
