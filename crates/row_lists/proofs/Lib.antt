-- The laws of the definitions: `Fills` of a list filled with zeros, `Rows` of rows read, written over and exchanged, `RowsIn` of rows with
-- contents, `InFull` of rows of either form and their words in full, `ListChecks` of what is checked of a sum, `WordLists` of what is checked of
-- rows of words alone, `Meanings` of what a list of rows of the old form is read as, `Arranging` of rows on their way into their places, `Placing` of the list while that goes on and once it is done.
pub mod Fills
pub mod Rows
pub mod RowsIn
pub mod InFull
pub mod ListChecks
pub mod WordLists
pub mod Meanings
pub mod Arranging
pub mod Placing
