pub mod Prefixes
pub mod Laws
pub mod Next
pub mod Tally
pub mod Text
pub mod Watching
