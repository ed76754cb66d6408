-- The laws of fields after the start.
pub mod Answered
pub mod Taking
pub mod Loop
pub mod Tested
