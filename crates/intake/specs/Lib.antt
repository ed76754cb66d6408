-- What a turn of reading leaves.
pub mod Turns
