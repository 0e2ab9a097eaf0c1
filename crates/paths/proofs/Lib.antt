-- The laws of the definitions: `Dispatch` of which path a group takes.
pub mod Dispatch
