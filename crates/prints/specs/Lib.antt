-- What the report prints.
pub mod Printed
