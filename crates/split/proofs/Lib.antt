-- The laws of the definitions: `Division` of parts read generator by generator, `Listing` of the places where an entry stands, `Spreading` of the index of the
-- whole, `Placing` of letters at the places of a table, `Members` of the generators of a part, `PartTables` of its tables, and `PartModes` of its modes.
pub mod Division
pub mod Listing
pub mod Spreading
pub mod Placing
pub mod Members
pub mod PartTables
pub mod PartModes
