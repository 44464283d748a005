-- Laws of numbers and datatypes, and the proofs of the claims.
pub mod Alignment
pub mod Properties
