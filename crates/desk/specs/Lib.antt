-- What becomes of a record's bytes as they arrive.
pub mod Feeding
