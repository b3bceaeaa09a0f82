pub mod Flags
pub mod Word
pub mod Registers
