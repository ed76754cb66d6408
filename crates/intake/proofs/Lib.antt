-- Laws of a turn of reading.
pub mod Fed
pub mod Coming
pub mod Answered
pub mod Untested
pub mod Told
