-- What a record that is listed turn by turn shows.
pub mod Walks
