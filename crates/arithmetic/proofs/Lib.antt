pub mod Changed
pub mod Bits
pub mod Outcomes
pub mod Carries
pub mod Overflow
pub mod Negation
