pub mod AtOnce
pub mod Gaining
pub mod InOrder
pub mod Keeping
pub mod Meeting
pub mod Places
pub mod Placing
