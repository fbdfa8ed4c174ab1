pub mod Inside
pub mod Journal
pub mod Laws
pub mod Open
pub mod Reservations
pub mod Savepoints
