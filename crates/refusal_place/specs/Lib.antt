-- Where the refusal of three sheets comes from.
pub mod Claims
pub mod Place
