-- The definitions that every other crate cites, in the order to read them.
pub mod Arithmetic
pub mod Lists
pub mod Support
pub mod Permutation
pub mod Lattice
pub mod Index
pub mod Orbit
pub mod Sector
pub mod Count
pub mod Examples
