-- Document 01, section Plan, and document 02, points 1 and 2: the conversion.
pub mod Casts
pub mod Claims
pub mod Conversion
pub mod Lost
