mod Common
mod LeastLemmas
pub mod Shapes
pub mod LeastLaws
mod TableLemmas
mod NestedFaults
