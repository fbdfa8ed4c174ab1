pub mod Copies
pub mod Joined
pub mod Word
pub mod WordNumber
