pub mod ClientLemmas
pub mod LineLemmas
pub mod OutcomeLemmas
pub mod ReadingLemmas
pub mod ScriptLemmas
pub mod TakenLemmas
pub mod WrittenLemmas
