-- Laws of plans, and the proofs of the claims.
pub mod Accepted
pub mod Answers
pub mod ByName
pub mod Copies
pub mod Custom
pub mod Defaults
pub mod Facts
pub mod Fits
pub mod Mappings
pub mod Put
pub mod Records
pub mod Slots
