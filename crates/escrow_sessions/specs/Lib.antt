pub mod Ends
pub mod Fed
pub mod Kept
pub mod Laws
pub mod Rule
pub mod Serving
pub mod Slots
pub mod Work
