-- What the definitions compute to, row by row.
pub mod Card
pub mod Records
pub mod Sheets
pub mod Desks
