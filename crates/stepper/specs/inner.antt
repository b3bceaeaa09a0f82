pub mod Until
pub mod Computed
