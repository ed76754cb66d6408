-- What is printed of a record that is traced.
pub mod Recorded
