-- What the contracts of this crate say, in the order to read it.
pub mod Limits
pub mod Word
pub mod Bytes
pub mod Text
pub mod Calls
