pub mod Counting
pub mod Ends
pub mod Journals
pub mod Places
pub mod Reading
pub mod ShownBounds
pub mod Standing
mod Violations
