-- The laws of the map's bits.
pub mod Bit
pub mod Marks
