-- The laws of the calls on momentum sectors, and demand 3, which is to be read first: `Demand3` has the statements.
--
-- `Decided`: the counts over the decision. `Outcomes`: what the calls come to. `CountPairs`: lists of pairs and counts over them. `Words`: accepted words, listed as
-- their bytes. `Modes`: mode lists, reduced. `GivenGroups`: a group value that generators give. `KeptCalls`: what modes keep, by the calls, and the counts over them.
-- `Numerators`: the numerators, by the calls. `RowCalls`: the call on rows of words. `RowPromises`: what is promised of it.
pub mod Decided
pub mod Outcomes
pub mod CountPairs
pub mod Words
pub mod Modes
pub mod GivenGroups
pub mod KeptCalls
pub mod Numerators
pub mod RowCalls
pub mod RowPromises
pub mod Demand3
