-- What is told of an open file.
pub mod Told
