-- Definitions that only serve the proof that the code meets its contracts.
pub mod Said
pub mod MarkCause
pub mod Whole
