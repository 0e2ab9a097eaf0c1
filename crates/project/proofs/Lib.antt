-- Laws of the call: `ProjectChecks` of what is checked, `Turning` of one row and `TurnedRows` of all, `AddedParts` of what they add,
-- `ProjectedLists` of the lists that this gives; and what is promised to a reader in `Promises`, with the laws that it cites.
pub mod ProjectChecks
pub mod Turning
pub mod TurnedRows
pub mod AddedParts
pub mod ProjectedLists
pub mod ProjectCalls
pub mod OneGenerator
pub mod OutputLists
pub mod ProjectedSums
pub mod Promises
pub mod CallExamples
