-- Sums projected onto a momentum sector.
pub mod Projection
