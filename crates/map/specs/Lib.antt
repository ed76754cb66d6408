-- The map of a cycle's outside positions.
pub mod Map
