pub mod Snoc
mod Own
pub mod Fitting
pub mod Stage
pub mod Step
pub mod Kept
pub mod ReadWritten
pub mod Listed
pub mod Says
mod Text
pub mod SoFar
pub mod Turned
pub mod Course
pub mod MarkArray
pub mod ReadLoop
pub mod Checks
pub mod Free
pub mod Readable
pub mod WrittenRead
pub mod Parts
pub mod Left
pub mod Onward
pub mod Accepts
pub mod Names
mod Later
pub mod OldTicket
pub mod WithNames
