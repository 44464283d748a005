-- What a run over strided attributes leaves, byte by byte.
pub mod AsWrites
pub mod Codes
pub mod Fits
pub mod Gapless
pub mod LostPoints
pub mod Runs
pub mod Several
