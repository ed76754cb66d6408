-- What laws and contracts speak of beside the ground floor: no sheet and no verdict rests on it.
pub mod Beside
pub mod Answers
pub mod Claims
pub mod Near
