-- What is printed of a file that is traced is what the rules give for the bytes that came.
pub mod Printed
