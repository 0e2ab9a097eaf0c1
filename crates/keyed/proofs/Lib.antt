-- Laws of rows folded by their keys.
pub mod Examples
pub mod Rising
pub mod Folds
pub mod Tables
pub mod Sums
pub mod Places
pub mod Commuting
pub mod WordKeys
