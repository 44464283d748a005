-- The definitions that the contracts of `attribute_conversion` cite.
pub mod Bytes
pub mod Attributes
pub mod Lost
pub mod Claims
