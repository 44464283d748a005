-- Decimal numbers in text: their values, texts of several, what holds of them, and examples.
pub mod Claims
pub mod Decimals
pub mod Examples
pub mod Numbers
