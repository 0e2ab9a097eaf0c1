-- The laws of the definitions: `ByBits` of candidates by the bits of their words, `Orders` of what orders alone decide, `Numbers` of sites under other numbers,
-- `Sent` of where indices send them, `Turning` of the rotations that a grid's generators are, `Gathered` of planes read through a table, `Filling`, `Tabled` and
-- `Sites` of how axes are written, a table is tested and a plane is read. `Promises` is for a reader.
pub mod ByBits
pub mod Orders
pub mod Numbers
pub mod Sent
pub mod Turning
pub mod Gathered
pub mod Filling
pub mod Tabled
pub mod Sites
pub mod Promises
