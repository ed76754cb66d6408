-- Laws of the trace's lines.
pub mod Rates
