-- Laws of the two storages, and the proof of the claim.
pub mod Apart
pub mod Laid
pub mod Sums
