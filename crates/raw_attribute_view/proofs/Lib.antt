-- Laws of views.
pub mod Parts
pub mod Points
pub mod Reading
pub mod Written
