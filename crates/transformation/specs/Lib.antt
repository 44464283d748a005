-- Document 02, point 7: shifts and poses.
pub mod Claims
pub mod Transformation
