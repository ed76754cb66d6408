-- What a trace prints of a started run.
pub mod Sources
