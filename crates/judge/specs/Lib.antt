-- The answers of the judge's operations, and what is left of run and memory.
pub mod Answers
