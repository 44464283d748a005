-- The definitions that the contracts of `scalar_casts` cite.
pub mod Scalars
pub mod Claims
