-- Document 01, section Sheets: mapping sheets, and three sheets in one input.
pub mod Claims
pub mod Frame
pub mod Mapping
pub mod Records
pub mod Values
