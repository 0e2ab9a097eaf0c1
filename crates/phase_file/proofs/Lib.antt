-- The laws of files: `Entries` of a line of two numbers and of so many lines, `Reading` of lines read into lists, `Tables` of the table that is read,
-- `FileCalls` of the call as its parts give it, `Printing` of tables printed and read again; `Promises`, what is promised of the call; and `Examples`.
pub mod Entries
pub mod Reading
pub mod Tables
pub mod FileCalls
pub mod Printing
pub mod Promises
pub mod Examples
