-- Laws of layouts, and the proofs of the claims.
pub mod Accepted
pub mod Beside
pub mod Bytes
pub mod Calls
pub mod Comparing
pub mod Customs
pub mod Listed
pub mod Makers
pub mod Places
pub mod Records
pub mod Reference
pub mod Same
pub mod Sharing
pub mod Soundness
