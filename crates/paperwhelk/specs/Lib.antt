-- What C is answered.
pub mod Exported
