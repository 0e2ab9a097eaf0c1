-- What the contracts of this crate say, in the order to read it.
pub mod Value
pub mod Calls
