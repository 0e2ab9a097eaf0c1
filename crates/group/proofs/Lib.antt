-- The laws of group values, and what is promised of the calls.
--
-- Accepted: what the checks of a value come to, and accepted groups. Outcomes: what the calls that take an index or a counter come to.
-- Counters: digits and indices undo each other. LatticeCalls: the four lattices by their axes. Making: the group of a list. MadeGroups: the groups that generators give. Promises: the statements, to be read first.
pub mod Accepted
pub mod Outcomes
pub mod Counters
pub mod LatticeCalls
pub mod Making
pub mod MadeGroups
pub mod Promises
