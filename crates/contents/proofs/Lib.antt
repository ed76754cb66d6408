-- What a content says of its field.
pub mod Brought
