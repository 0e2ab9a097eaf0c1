-- The laws of the definitions: `Numbers` of what a grid's generators do to the numbers of sites, `Grids` of which groups are grids, `Refining` of candidates
-- struck out bit by bit, `Sets` of sets of candidates in machine words, `Stepping` of the candidates' bits from place to place, `Blocks` of the blocks of a
-- plane, `Rounds` of refinement round by round and block by block, `OneWord` of rounds on one machine word, `Leads` of what the candidates say that are
-- left, `BothPlanes` of the two planes, `Settling` of words compared candidate by candidate; and `Promises`, the statements for a reader.
pub mod Numbers
pub mod Grids
pub mod Refining
pub mod Sets
pub mod Stepping
pub mod Blocks
pub mod Rounds
pub mod OneWord
pub mod Leads
pub mod BothPlanes
pub mod Settling
pub mod Promises
