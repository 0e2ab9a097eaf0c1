-- What the contracts of this crate say, in the order to read it.
pub mod Calls
pub mod Words
pub mod Counts
