-- How a run ends, and what it lost.
pub mod Ends
pub mod Losses
