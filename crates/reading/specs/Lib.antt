-- Fields after the start, and the tests before them.
pub mod Answers
pub mod Along
