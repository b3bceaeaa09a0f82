pub mod Codes
pub mod Result
pub mod Byte
pub mod Word
pub mod Decimal
pub mod Divide
pub mod inner
