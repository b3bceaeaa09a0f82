pub mod Cause
pub mod Verdict
