-- Laws of a record that is listed turn by turn.
pub mod Showing
pub mod Lasts
pub mod Going
pub mod Recording
pub mod Printed
