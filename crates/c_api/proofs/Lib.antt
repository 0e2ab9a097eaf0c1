-- Laws of what calls come to as numbers.
pub mod Telling
pub mod Promises
