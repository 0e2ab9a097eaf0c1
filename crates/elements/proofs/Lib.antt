-- The laws of the definitions: `TableRows` of the group that tables hold, `Indices` of the loops over its generators, `Counters` of the loops over a
-- counter, `Codes` of words as one byte a site, `Steps` of the walk's step, `Orbits` of the walk and of the list that it fills, `LeastSoFar` of the least word so far.
pub mod TableRows
pub mod Indices
pub mod Counters
pub mod Codes
pub mod Steps
pub mod Orbits
pub mod LeastSoFar
