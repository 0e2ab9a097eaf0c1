-- What the contracts of this crate say, in the order to read it.
pub mod Sheet
pub mod Text
pub mod Example
