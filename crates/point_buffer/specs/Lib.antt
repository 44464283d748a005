-- Document 02, point 2: buffers of interleaved points and of columns.
pub mod Claims
pub mod Places
pub mod Records
