pub mod Crossing
pub mod Posting
pub mod Rule
pub mod SessionLemmas
pub mod TallyLemmas
