-- Laws of phase tables: `Tests` of what the tests mean, `Steps` and `Ranges` of the code that makes them, `Constant` of the constant table.
pub mod Tests
pub mod Ranges
pub mod Steps
pub mod Constant
pub mod Examples
