-- The laws of a sheet's lines: `Lines` of the checks of one line, and of lattices whose sides are read up to a cap; `Heads` of the first three lines;
-- `Faults` of refusals with their line.
pub mod Lines
pub mod Heads
pub mod Faults
