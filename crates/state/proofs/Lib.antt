-- What the tests before a run say.
pub mod Checked
pub mod Stretches
