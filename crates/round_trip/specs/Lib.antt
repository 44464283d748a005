-- Document 02, point 2: points converted into another buffer and back.
pub mod Claims
