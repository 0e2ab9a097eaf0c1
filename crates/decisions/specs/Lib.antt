-- What modes make of a word, and the same by numbers.
pub mod Decisions
pub mod Placements
