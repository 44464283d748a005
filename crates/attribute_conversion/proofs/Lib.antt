-- The laws that the functions' proofs cite.
pub mod LittleEndian
pub mod Components
pub mod Sizes
pub mod Lost
pub mod Differing
pub mod Claims
