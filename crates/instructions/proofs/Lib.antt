pub mod Effects
pub mod Branch
