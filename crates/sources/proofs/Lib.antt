-- The numbers of a trace are those of the rules.
pub mod Places
pub mod OfRun
