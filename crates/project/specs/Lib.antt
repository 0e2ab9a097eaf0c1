-- What the contracts of this crate say, and what is promised of a projected sum.
pub mod Calls
pub mod Rows
pub mod Promises
