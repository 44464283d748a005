-- The laws that the functions' proofs cite.
pub mod Table
pub mod PairRule
pub mod Castable
pub mod Claims
