-- What the contracts of this crate say.
pub mod HeldGroup
pub mod Letters
