-- What the contracts of this crate say, and what is promised of a sum.
pub mod Calls
pub mod Promises
