-- The laws of sheets: `Bodies` of the value lines, one after the other; `Groups` of the group that a line stands for; `Sheets` of what a sheet prints;
-- `Fits` of how long that is; `Promises`, the statements, to be read first.
pub mod Bodies
pub mod Groups
pub mod Sheets
pub mod Fits
pub mod Promises
