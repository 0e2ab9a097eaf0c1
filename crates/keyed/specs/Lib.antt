-- Rows folded by their keys.
pub mod Keyed
