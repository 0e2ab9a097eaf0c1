-- The laws of the definitions: `Filling` of a list written place by place, and `Answers` of what rows of words are answered.
pub mod Filling
pub mod Answers
