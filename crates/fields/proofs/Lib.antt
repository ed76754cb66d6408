-- The laws of fields that the crates above cite.
pub mod Fronts
pub mod Numbers
