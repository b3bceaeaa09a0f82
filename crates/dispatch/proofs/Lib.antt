pub mod Sited
pub mod Waiting
