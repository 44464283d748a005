-- Laws of the conversion of one point, and the proofs of the claims.
pub mod Answers
pub mod Disjoint
pub mod Claims
pub mod Fits
pub mod Lookup
