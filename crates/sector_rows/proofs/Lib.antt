-- The laws of rows that are read and written.
pub mod Written
