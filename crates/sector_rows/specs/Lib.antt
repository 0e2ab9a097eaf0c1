-- The decisions for rows of words.
pub mod Rows
