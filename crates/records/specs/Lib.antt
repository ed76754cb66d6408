-- A record as the code keeps it.
pub mod Stage
