-- The laws of writes.
pub mod Claimed
pub mod Hits
pub mod Mapped
pub mod Stores
pub mod Whole
