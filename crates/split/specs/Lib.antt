-- Groups in parts, as they are stored.
pub mod Places
