-- The laws of the judge's definitions, and the join with the rules.
pub mod Entries
pub mod LedgerShows
pub mod MapShows
pub mod StretchesShow
pub mod Beside
pub mod Blank
pub mod Played
pub mod Calls
pub mod Figures
pub mod Limits
pub mod StretchesWithin
pub mod Runs
pub mod Promises
