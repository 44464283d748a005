-- What the proofs inside the crate say of a binary64.
pub mod Narrowing
