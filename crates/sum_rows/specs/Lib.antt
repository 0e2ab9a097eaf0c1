-- What the contracts of this crate say.
pub mod Sums
pub mod Rows
pub mod Added
