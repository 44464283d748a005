-- Document 01, section Plan: plans.
pub mod Claims
pub mod Makers
pub mod Plan
pub mod Records
pub mod Steps
