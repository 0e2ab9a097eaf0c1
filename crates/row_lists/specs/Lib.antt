-- What the contracts of this crate say.
pub mod Rows
pub mod Checks
pub mod Arranging
