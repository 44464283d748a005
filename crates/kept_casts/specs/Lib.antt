-- The definitions that the contracts of `kept_casts` cite.
pub mod Kept
pub mod Steps
