-- Laws of words, of whole command lines and of exit statuses.
pub mod Claims
pub mod Examples
pub mod Lines
pub mod Options
pub mod Statuses
pub mod Tasks
pub mod Words
