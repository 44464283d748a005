-- The theorems over the tables.
pub mod Calls
pub mod Casts
pub mod Layouts
pub mod Plans
pub mod Proved
pub mod Sheets
