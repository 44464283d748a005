-- Laws of the conversion, and the proof of the claim.
pub mod Casts
pub mod Checks
pub mod Demand
pub mod Lists
pub mod LostCounts
pub mod LostNumbers
pub mod Written
