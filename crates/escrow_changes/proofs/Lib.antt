pub mod Accepted
pub mod Altered
pub mod Replaced
pub mod Shown
pub mod Taken
