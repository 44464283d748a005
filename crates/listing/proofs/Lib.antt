-- Laws of listings, and the proofs of the claims.
pub mod Answered
pub mod Cases
pub mod Claimed
pub mod Digits
pub mod Parts
pub mod Listings
pub mod Mapped
