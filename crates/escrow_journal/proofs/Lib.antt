pub mod Cutting
pub mod Filters
pub mod Free
pub mod Kept
pub mod LawLemmas
pub mod Named
pub mod Ordered
pub mod Outcomes
