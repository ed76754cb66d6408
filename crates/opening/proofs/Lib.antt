-- The laws of the first four fields.
pub mod Readied
pub mod Starting
pub mod Next
