-- The laws of the definitions: `Packing` of planes of machine words and the letters that they hold, `Shifts` of words and planes under shifts, `Masks` of
-- patterns, masks and rotations, `Comparing` of how planes compare.
pub mod Packing
pub mod Shifts
pub mod Masks
pub mod Comparing
