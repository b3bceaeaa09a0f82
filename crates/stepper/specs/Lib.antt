pub mod Answer
pub mod Step
pub mod Run
pub mod Record
pub mod Flow
pub mod Trace
pub mod inner
