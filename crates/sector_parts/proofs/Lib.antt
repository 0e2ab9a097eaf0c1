-- The laws of the definitions: `Joining` of two decisions put together, `Standing` of a row before a part and after it, and `Passing` of rows and numbers that
-- are changed one after the other.
pub mod Joining
pub mod Standing
pub mod Passing
