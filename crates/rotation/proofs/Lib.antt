-- The laws of the definitions: `Rotations` of sites and words rotated inside blocks, `XPlane` of the index that the X bits decide, `Shaping` of the
-- test whether a permutation rotates, `Packs` of words packed into planes and unpacked, `Moved` of words in planes moved and compared, `Ties` of the
-- number of indices that reach the least word so far, `Walks` of the walk, `Reached` of the word that an index reaches, `Leads` of what leads in an orbit;
-- and `Promises`, the statements for a reader.
pub mod Rotations
pub mod XPlane
pub mod Shaping
pub mod Packs
pub mod Moved
pub mod Ties
pub mod Walks
pub mod Reached
pub mod Leads
pub mod Promises
