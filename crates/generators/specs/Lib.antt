-- What the contracts of this crate say.
pub mod Tables
pub mod Parts
