-- The laws of a record as the code keeps it.
pub mod Came
pub mod Later
pub mod Weighs
pub mod Limits
pub mod After
pub mod Held
pub mod Joined
pub mod Tells
