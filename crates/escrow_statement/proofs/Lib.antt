pub mod AnyCase
pub mod WordLemmas
