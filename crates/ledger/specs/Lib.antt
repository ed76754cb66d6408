-- The ledger's numbers: what is done to them, and what is read from them.
pub mod Row
