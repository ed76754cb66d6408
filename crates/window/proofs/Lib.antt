-- The laws of the window: lines of the grid, the fewer places, and how it moves.
pub mod Lines
pub mod Fewer
pub mod Moves
