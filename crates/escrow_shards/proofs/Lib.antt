mod Asking
pub mod Closings
pub mod Crossing
pub mod Following
pub mod InPlaces
pub mod Kept
pub mod Matching
pub mod NewPasses
pub mod NoPass
pub mod Places
pub mod Reading
pub mod Rest
pub mod Showing
pub mod Together
pub mod UnderLocks
mod Waiting
pub mod Watching
pub mod Wholes
