-- The formula at worked numbers, and laws of what is carried.
pub mod Claims
pub mod Sides
