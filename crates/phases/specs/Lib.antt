-- What the contracts of this crate say.
pub mod Table
pub mod Rules
pub mod Checks
pub mod Nearest
