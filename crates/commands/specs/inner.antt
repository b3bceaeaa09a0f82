pub mod WindowCause
pub mod Table
pub mod Sound
