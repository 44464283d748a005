-- Laws of formats.
pub mod Extended
pub mod Fields
pub mod Means
pub mod Numbers
pub mod Octets
pub mod Packing
pub mod Reading
pub mod Refusals
pub mod Spelled
pub mod Written
