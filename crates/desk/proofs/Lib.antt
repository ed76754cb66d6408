-- The laws of a desk.
pub mod Staged
pub mod Good
pub mod Opens
pub mod Turns
pub mod Grounds
pub mod Begun
pub mod Feeds
pub mod Arriving
pub mod LeftOver
