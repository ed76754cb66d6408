-- What an accepted sample does to a run and its memory, and where the run stands then.
pub mod Step
pub mod Where
