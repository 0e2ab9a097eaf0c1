-- What the contracts of this crate say.
pub mod File
pub mod Read
pub mod Calls
