-- The laws of where a run stands, and of accepted samples.
pub mod Standing
pub mod Placing
pub mod Steps
pub mod Beside
pub mod Fresh
pub mod Judging
pub mod Growing
pub mod Keeping
