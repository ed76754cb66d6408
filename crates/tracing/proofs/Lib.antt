-- What the trace prints of a desk, and of a record.
pub mod Standing
pub mod Lines
pub mod Limits
pub mod Texts
pub mod Printed
