-- The laws of the definitions: `Joined` of indices of the whole by those of the parts, `Bitwise` of the first bit where two words differ, `Independent` of
-- what the parts make of a word, `Sectors` of how many indices fix it, and which modes keep it or what drops it, `Carried` of sites under other numbers,
-- `Labelled` of parts by labels, `Stepwise` of one part more; and `Promises`, the statements for a reader.
pub mod Joined
pub mod Bitwise
pub mod Independent
pub mod Sectors
pub mod Carried
pub mod Labelled
pub mod Stepwise
pub mod Promises
