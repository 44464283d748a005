-- The laws that the functions' proofs cite.
pub mod Same
pub mod Casting
pub mod Kept
pub mod Ranges
pub mod FewDigits
pub mod Fractions
pub mod Narrow
pub mod Sizes
pub mod Wholes
pub mod Dispatch
