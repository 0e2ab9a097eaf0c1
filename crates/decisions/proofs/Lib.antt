-- The laws of a decision.
--
-- `Remainders`: a mode's remainder. `Phases`: the sum of the generators' phases, and the table. `Placing`: a decision, by whether the modes keep the word, and
-- what drops it by a step. `Traversals`: one traversal of the indices, test by test, and what its answer says. `Differences`: the decision by the candidates that
-- lead on a grid.
pub mod Remainders
pub mod Phases
pub mod Placing
pub mod Traversals
pub mod Differences
