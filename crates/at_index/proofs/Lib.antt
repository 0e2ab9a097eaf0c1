-- The laws of the definitions: `Squares` of a permutation's square and of moves by it, `Going` of words on their way, on codes, and `Promises` of examples.
pub mod Squares
pub mod Going
pub mod Promises
