-- Document 01, section Datatype, and `align_to` of section Layout.
pub mod Arithmetic
pub mod Claims
pub mod Datatype
