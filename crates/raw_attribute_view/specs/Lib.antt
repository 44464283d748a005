-- Document 01, section View.
pub mod Claims
pub mod Records
pub mod View
