-- Groups in other numberings of their sites.
pub mod Renumbered
