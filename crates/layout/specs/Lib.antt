-- Document 01, section Layout.
pub mod Calls
pub mod Claims
pub mod Layout
pub mod Lookup
pub mod Makers
pub mod Records
pub mod Reference
pub mod Steps
