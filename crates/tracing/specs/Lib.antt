-- What the trace prints.
pub mod Traced
