pub mod Fields
pub mod Inside
pub mod Joined
pub mod Sessions
