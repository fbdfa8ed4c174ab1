pub mod Audited
pub mod Calls
pub mod Commits
pub mod Entered
pub mod Inside
pub mod Laws
