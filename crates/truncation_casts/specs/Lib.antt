-- What the proofs inside the crate say of a float.
pub mod Truncation
