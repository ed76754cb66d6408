-- What the report prints of a started run.
pub mod Figured
pub mod Compared
