-- The laws of what is printed.
pub mod Digits
pub mod Signs
pub mod Overlaid
