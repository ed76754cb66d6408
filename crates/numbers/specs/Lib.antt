-- Words of the lent memory and the code's integers: sizes of integers, lists.
pub mod Whole
pub mod Lists
