pub mod Laws
pub mod Room
pub mod Text
