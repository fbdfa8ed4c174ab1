pub mod Apart
pub mod Held
pub mod Lines
pub mod Once
pub mod Opened
pub mod Played
pub mod Readable
pub mod Shown
