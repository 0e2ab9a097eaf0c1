-- What the contracts of this crate say, in the order to read it.
pub mod Grid
pub mod Candidates
pub mod Stages
pub mod Weighing
