-- Laws of projected sums.
pub mod Examples
pub mod Entries
pub mod Integers
pub mod Projected
pub mod OneWord
pub mod Bounds
