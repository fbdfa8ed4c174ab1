pub mod Laws
pub mod Protocol
pub mod Step
pub mod Wrong
