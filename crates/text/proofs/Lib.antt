pub mod Digits
pub mod Spelled
mod ListingColumns
pub mod Listed
mod VerdictParts
pub mod VerdictsApart
mod Written
