-- Laws of what is exported to C.
pub mod Whole
pub mod Fitting
