pub mod Bit
pub mod Splice
pub mod Ascii
pub mod Digit
