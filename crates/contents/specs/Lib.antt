-- What a field after the start brings.
pub mod Content
