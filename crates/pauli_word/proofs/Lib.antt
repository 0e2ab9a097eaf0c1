-- The laws of the definitions: `Bits` of one byte, `Copies` of a list copied, `Planes` of a plane of any length, `Words` of the two planes of a word,
-- `Forms` of a word's two forms, `WordOrder` of the order of words, `Sites` of their weight and of loops over their sites, `Texts` of text words,
-- `Checks` of what the checks of a word come to, `Outcomes` of what calls come to for either form of a word.
pub mod Bits
pub mod Copies
pub mod Planes
pub mod Words
pub mod Forms
pub mod WordOrder
pub mod Sites
pub mod Texts
pub mod Checks
pub mod Outcomes
