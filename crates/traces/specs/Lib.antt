-- Bounds of what the lines of the trace are made of.
pub mod Bounds
