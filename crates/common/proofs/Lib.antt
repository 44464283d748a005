-- Laws that several crates cite.
pub mod Digits
pub mod Lists
pub mod Pigeonhole
pub mod Refusals
pub mod Stores
pub mod Sums
