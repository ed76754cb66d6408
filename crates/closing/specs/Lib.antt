-- The closing of a started run.
pub mod Answers
