pub mod Client
pub mod Laws
pub mod Line
pub mod Reading
pub mod Script
pub mod Written
