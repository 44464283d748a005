-- Laws of lent lists of members.
pub mod Claimed
pub mod Gathered
