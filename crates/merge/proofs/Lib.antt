-- Laws of sums folded onto representatives.
pub mod SumChecks
pub mod FoldedRows
pub mod SumCalls
pub mod FoldedSums
pub mod Promises
