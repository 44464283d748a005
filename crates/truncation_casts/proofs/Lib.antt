-- The laws that the functions' proofs cite.
pub mod Truncated
pub mod Whole
pub mod Powers
pub mod SumPart
pub mod InHalves
