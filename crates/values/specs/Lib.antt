-- The limits of amounts and methods.
pub mod Limits
