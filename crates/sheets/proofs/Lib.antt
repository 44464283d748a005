-- Laws of mapping sheets and frames, and the proofs of the claims.
pub mod Between
pub mod Cases
pub mod Frames
pub mod Lines
pub mod Meanings
pub mod Numbers
pub mod Planned
pub mod Plans
pub mod Values
