-- What an answer of the system means.
pub mod Answers
