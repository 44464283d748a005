-- Laws of layout sheets, and the proofs of the claims.
pub mod Attributes
pub mod Cases
pub mod Claimed
pub mod Customs
pub mod Gathering
pub mod Layouts
pub mod Lengths
pub mod Numbers
pub mod Older
pub mod Parts
pub mod Placing
pub mod Readers
pub mod Sheets
pub mod Slots
pub mod Spellings
pub mod Turns
pub mod Values
