-- Laws of sums in lists.
pub mod Finite
pub mod RowSums
pub mod RowAdding
pub mod Folded
