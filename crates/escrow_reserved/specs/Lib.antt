pub mod Ends
pub mod Placed
pub mod Read
pub mod Reserved
