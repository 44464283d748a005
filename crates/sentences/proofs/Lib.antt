-- The numbers that have no sentence.
pub mod Unnumbered
