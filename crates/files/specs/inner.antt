-- Definitions that only serve the proof that the code meets its contracts.
pub mod Counts
