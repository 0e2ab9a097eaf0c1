-- What the contracts of this crate say, in the order to read it.
pub mod Lines
pub mod Parts
