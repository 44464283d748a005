-- Laws of the place of a refusal, and the proofs of the claims.
pub mod Claimed
pub mod Least
pub mod Listed
pub mod Places
pub mod Same
pub mod Shown
