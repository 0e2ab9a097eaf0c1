-- Laws of the words of rows: `RowKeys` of their order, `Searching` of the search by halves, `Inserting` of a member put in, `WordMerging` of what
-- the lists hold with one row more, `Arranged` of the words and places at the end, `PlacedRows` of what is folded at these places.
pub mod RowKeys
pub mod Searching
pub mod Inserting
pub mod WordMerging
pub mod Arranged
pub mod PlacedRows
pub mod WordBytes
