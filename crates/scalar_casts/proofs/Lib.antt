-- The laws that the functions' proofs cite.
pub mod Scalars
pub mod Fitting
pub mod Numbers
pub mod Claims
