pub mod Promise
pub mod Start
pub mod Certification
pub mod Routine
pub mod Records
pub mod Names
