-- Text in lent lines.
pub mod Overlaid
