-- What the contracts of this crate say, in the order to read it, and texts in quotes.
pub mod Text
pub mod Parts
pub mod Names
pub mod Quoted
