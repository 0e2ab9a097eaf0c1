-- What the contracts of every crate say of an outcome.
pub mod Outcome
