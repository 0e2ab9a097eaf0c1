-- What the contracts of this crate say.
pub mod Words
pub mod Held
