pub mod ArgsFaults
pub mod ArgsLemmas
pub mod CleanDisks
pub mod Crossing
pub mod FoundLemmas
pub mod ProgramLemmas
pub mod RanLemmas
pub mod Runs
