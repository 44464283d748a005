-- Laws of the points of a file and of its blocks, and the proofs of the claims.
pub mod BlockBytes
pub mod Blocked
pub mod Chained
pub mod Checked
pub mod Claimed
pub mod Covered
pub mod FilePoints
pub mod LostInBlocks
pub mod Parts
