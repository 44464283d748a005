-- Points of a file in blocks of fixed memory.
pub mod Blocks
pub mod Claims
pub mod Parts
