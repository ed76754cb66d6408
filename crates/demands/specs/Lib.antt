-- The three demands, stated; and what the statements rest on. proofs/ has the theorems `demand_1`, `demand_2` and `demand_3`.
pub mod Demand1
pub mod Demand2
pub mod Demand3
pub mod Calls
pub mod Runs
pub mod Cases
pub mod Compared
pub mod Rows
pub mod Programs
pub mod Foreign
pub mod Range
pub mod ShutOut
