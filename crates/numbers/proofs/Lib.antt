-- The laws that the functions' proofs cite.
pub mod Size
pub mod Widths
pub mod Round
pub mod Closest
pub mod Decoding
pub mod Value
pub mod Nan
pub mod TwosComplement
pub mod Machine
pub mod Sums
pub mod Exact
pub mod Nearest
pub mod Fitting
