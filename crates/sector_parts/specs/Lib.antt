-- Decisions part by part.
pub mod Steps
