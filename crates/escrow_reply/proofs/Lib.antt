pub mod Quotes
pub mod Whole
