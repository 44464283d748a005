-- The proofs of specs/.
pub mod Demands
pub mod Numbers
