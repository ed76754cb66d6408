-- Document 01 as definitions, in its order. This is what a reader must believe.

-- the words that the rules are said in
pub mod Words
-- 'Numbers on the bench'; the cycle; 'The tolerance band', and the bench controller's question about it
pub mod Bench
pub mod Cycle
pub mod Band
pub mod Question
-- which samples count; what a method is; phases and cycles, and when they are finished; the regular method, the shortened one (document 02, L5), the
-- plan of a run; 'Ledger and map'
pub mod Tally
pub mod Course
pub mod Parts
pub mod Regular
pub mod Shortened
pub mod Plan
pub mod Shown
-- 'Numbered answers'
pub mod Numbered
-- 'Closing figures'; the range from unrounded consumptions (document 02, L11)
pub mod Closing
pub mod Exact
-- 'Record layout': the table of tags and the order; what stands at the front of bytes; the machine that takes fields; the values of fields;
-- what each field brings, with the 'Numbered answers', and what a record tells
pub mod Table
pub mod Front
pub mod Machine
pub mod Values
pub mod Record
-- 'The report program': the figures of a sheet, and its text
pub mod Figures
pub mod Text
-- the desk's programs: the field list, and the trace of a sheet
pub mod Listing
pub mod Trace
-- 'Rows on the test card', and rows of our own: of the definitions above, of short records, of a sheet, of field lists and traces
pub mod Rows
pub mod Card
pub mod Records
pub mod Sheets
pub mod Desks
