-- Formats of sheets. Nothing here speaks of layouts or plans.
pub mod Bits
pub mod Format
pub mod Meaning
pub mod Spelling
