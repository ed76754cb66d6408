-- Laws of the field list.
pub mod Texts
pub mod Fronted
pub mod Walking
pub mod Behind
