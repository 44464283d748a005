-- Document 01, section Sheets: what `scanplan` prints.
pub mod Claims
pub mod Text
