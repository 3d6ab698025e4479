mod Common
mod Ticks
pub mod Places
pub mod Leaving
mod Filled
pub mod Inputs
mod InputsTold
pub mod Lines
mod LinesTold
mod FunctionsTold
pub mod InputPlaces
pub mod InputValues
mod InputSums
mod ProductRuns
mod Across
pub mod Moving
mod Agreement
pub mod Variables
mod ExpectedResult
pub mod Keeping
pub mod Standing
pub mod Sent
pub mod RowsTold
mod NamedSends
pub mod Passing
