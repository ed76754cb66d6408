-- The first four fields, and a call of `open`.
pub mod Answers
pub mod Begin
