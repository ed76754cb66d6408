-- The laws that every crate cites.
pub mod Tests
pub mod Order
pub mod Range
pub mod Extremes
pub mod Firsts
pub mod Tables
pub mod Whole
pub mod Signed
pub mod Lists
pub mod Sums
pub mod Bytes
