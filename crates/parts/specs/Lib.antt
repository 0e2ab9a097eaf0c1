-- Groups in parts, and sites under other numbers.
pub mod Parts
pub mod Labels
pub mod Numbered
