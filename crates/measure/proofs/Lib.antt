mod FlowFound
mod Left
pub mod Apart
