-- The figures of a whole run are those of the rules.
pub mod OfRun
pub mod WiderFigures
