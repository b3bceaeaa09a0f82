pub mod Shape
pub mod Marks
pub mod Rules
pub mod Checks
pub mod InUse
pub mod Claim
