-- What rows of words are answered.
pub mod Rows
