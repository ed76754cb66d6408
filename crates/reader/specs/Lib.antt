-- The answers.
pub mod Answers
