-- The laws of the definitions: `Turned` of what the turns of a word say of a group of one generator, `Cycles` of tables that hold one, `Promises` for
-- a reader, `BitOrder` of the order of bits by the first that differs, `Scans` of the scan for the least rotation, `Symbols` of a block of a plane as a
-- ring of symbols, `Keys` of the bits that order turned words, `Refinement` of planes one after the other.
pub mod BitOrder
pub mod Scans
pub mod Symbols
pub mod Keys
pub mod Refinement
pub mod Turned
pub mod Cycles
pub mod Promises
