-- Document 01's cases marked (P), and tables whose rows rule out wrong programs.
pub mod Calls
pub mod Casts
pub mod Layouts
pub mod Plans
pub mod Sheets
pub mod Table
