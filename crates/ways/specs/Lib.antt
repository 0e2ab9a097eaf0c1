-- Which way a group takes, and words read through a table.
pub mod Through
pub mod Ways
