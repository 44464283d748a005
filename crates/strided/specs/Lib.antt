-- One attribute of each of many points.
pub mod Steps
pub mod Strided
