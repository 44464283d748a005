-- The laws that the functions' proofs cite.
pub mod Narrow
pub mod NarrowRest
