pub mod Wrap
pub mod Bits
pub mod FlagsByte
