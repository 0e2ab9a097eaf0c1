-- The laws of what this crate's contracts say.
pub mod Promises
