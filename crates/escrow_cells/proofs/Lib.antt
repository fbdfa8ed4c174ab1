mod AllOrNone
pub mod Bare
mod Columns
mod Delete
mod FormatRow
mod Insert
pub mod Inside
mod Leaves
pub mod Makes
mod Making
mod Matches
mod Migrating
mod Numbering
pub mod Pairs
pub mod Reading
pub mod ReadTexts
pub mod Recognising
pub mod Resting
pub mod Selects
pub mod Rising
pub mod Spans
mod Steps
pub mod Streaming
mod Texts
pub mod Unique
mod Update
mod UpdateAt
