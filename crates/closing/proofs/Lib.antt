-- The laws of the closing figures, and the join with the rules.
pub mod Grounds
pub mod Joined
