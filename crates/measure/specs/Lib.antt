pub mod Look
pub mod inner
