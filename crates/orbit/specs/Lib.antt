-- What the contracts of this crate say, and what its promises are stated by.
pub mod Calls
pub mod Words
pub mod Walked
