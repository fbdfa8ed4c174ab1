pub mod Book
pub mod Example
pub mod Laws
