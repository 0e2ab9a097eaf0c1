-- The laws of the definitions, each file above those that it uses. `Theorems` states what is proved, and is the one to read.
pub mod Arithmetic
pub mod Lists
pub mod Below
pub mod Support
pub mod ExactOrders
pub mod Move
pub mod Index
pub mod Reach
pub mod Canonical
pub mod Stabilizer
pub mod Annihilators
pub mod Characters
pub mod Kept
pub mod Dropped
pub mod Pairs
pub mod Lattice
pub mod Theorems
