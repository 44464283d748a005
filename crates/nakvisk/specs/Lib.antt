-- What the exported functions give, over the definitions of the crates below.
pub mod Calls
pub mod Claims
