-- What the contracts of this crate say, in the order to read it.
pub mod Limits
pub mod Generators
pub mod Lengths
pub mod Parts
