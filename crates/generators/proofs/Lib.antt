-- The laws that the functions' proofs rest on, each file below those that it uses.
pub mod Stores
pub mod Shifts
pub mod Zeros
pub mod Written
pub mod Faults
pub mod Placed
pub mod Reading
pub mod Rows
pub mod Axes
pub mod Holding
pub mod Groups
