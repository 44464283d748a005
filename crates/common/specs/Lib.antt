-- Notions that several crates cite: refusals, tests over lists, and words as bytes.
pub mod Ascii
pub mod Lists
pub mod Logic
pub mod Refusal
