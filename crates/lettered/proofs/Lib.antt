-- The laws of the definitions: `Comparing` of codes compared site by site, `CodeSteps` of the walk's step on codes, `Leading` of the
-- least word so far, its index and its ties.
pub mod Comparing
pub mod CodeSteps
pub mod Leading
