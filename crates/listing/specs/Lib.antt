-- How long the lines of the field list can be, and what of it one field at the front of bytes brings.
pub mod Lines
