pub mod Record
pub mod Read
pub mod Load
pub mod inner
