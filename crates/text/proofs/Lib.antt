-- The laws of texts: `Pieces` of texts that are the same, the pieces of a text and the fields of a line; `Lines` of lines by where they end and of a
-- line of names; `Numbers` of digits, numbers read up to a cap, signed numbers and modes; `Puts` of a text written into a list, and `Writing` of several; `Decimals` of a
-- number's digits; `Roundtrip` of numbers written and read again; `Meanings`, that definitions are what their names say.
pub mod Pieces
pub mod Lines
pub mod Numbers
pub mod Puts
pub mod Writing
pub mod Decimals
pub mod Roundtrip
pub mod Meanings
