-- What stands at the front of the input.
pub mod Fields
