-- Laws of the exported calls, and the proofs of the claims.
pub mod Calls
pub mod Claimed
pub mod Given
