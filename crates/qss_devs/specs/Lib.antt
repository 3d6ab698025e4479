pub mod Prelude
pub mod Starts
pub mod Coupling
pub mod CoupledSteps
pub mod CoupledEvents
pub mod Flags
