pub mod Rows
pub mod Tables
pub mod Conditions
pub mod Decode
pub mod inner
