-- Document 01, section Plan: `RawPointConverter`.
pub mod Claims
pub mod Convert
pub mod Pairs
pub mod Steps
