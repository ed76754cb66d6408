-- What a call of `read` and of `read_all` leaves, and where the input may end.
pub mod Answering
pub mod Unchanged
pub mod Endings
