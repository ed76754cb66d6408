-- The laws of rates, weights and one pass over a ledger.
pub mod Weights
pub mod Gathers
