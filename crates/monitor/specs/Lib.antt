pub mod BigEndian
pub mod RegisterBytes
pub mod StepperCalls
pub mod Slot
pub mod RoutineCalls
pub mod Home
pub mod inner
