-- Laws of texts and of the values of decimals.
pub mod Claims
pub mod Examples
pub mod Texts
pub mod Values
pub mod Words
