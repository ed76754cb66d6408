-- The laws of the ledger's nine numbers of a cycle, and of the bounds of all 576.
pub mod Rows
pub mod Bounded
