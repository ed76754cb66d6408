-- The figures of finished cycles.
pub mod Figures
