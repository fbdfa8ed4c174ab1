pub mod Apart
pub mod Failed
pub mod Laws
pub mod Texts
