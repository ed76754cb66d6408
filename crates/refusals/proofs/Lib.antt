-- Parts of lent memory.
pub mod Lending
