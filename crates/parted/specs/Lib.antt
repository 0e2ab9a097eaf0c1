-- Rows of words part by part.
pub mod Steps
