-- A started run's state, its limits, and what is refused before it or its memory is touched.
pub mod State
pub mod Refusals
