-- What the contracts of this crate say.
pub mod Cyclic
pub mod Narrowing
