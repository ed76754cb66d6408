-- What the report prints of a desk, and of a record.
pub mod Texts
pub mod Printing
