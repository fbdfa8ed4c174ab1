mod Entering
mod NeverFull
mod Promised
pub mod Kept
