-- The laws of rows: `Rows` of a row as it is written, one text after the other; `Widths` of how long rows are.
pub mod Rows
pub mod Widths
