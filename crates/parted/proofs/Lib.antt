-- Laws of the least word part by part: where words stand before a part and after it, rows of a list one after the other, and letters put back into a word.
pub mod Standing
pub mod Walking
pub mod Replacing
