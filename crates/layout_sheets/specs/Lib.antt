-- Document 01, section Sheets: layout sheets.
pub mod Claims
pub mod Older
pub mod Place
pub mod Reader
pub mod Records
pub mod Sheet
pub mod Values
