-- The laws of the calls on words and of the walk, and what is promised of them.
--
-- WordCalls: what the checks of a group and a word come to. Walking: a walk's checks. Outcomes: what the calls come to with accepted groups and
-- words. Walked: the walk, step by step. Indexed: the word that an index makes. RowCalls: the call on rows of words. Promises: the statements, to be read first.
pub mod WordCalls
pub mod Walking
pub mod Outcomes
pub mod Walked
pub mod Indexed
pub mod RowCalls
pub mod Promises
