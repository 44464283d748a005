-- The definitions that the contracts of the casts cite, and what is claimed of a NaN.
pub mod Casts
pub mod Widths
pub mod Kinds
pub mod Claims
