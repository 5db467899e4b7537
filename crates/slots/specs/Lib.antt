pub mod Cursor
pub mod Layout
pub mod Standing
