mod Common
mod FirstSteps
mod Placing
mod FirstRuns
mod Legitimate
mod Flags
mod SecondSums
mod SecondSteps
mod SecondRuns
mod SecondLegitimate
mod Wides
mod Listed
pub mod OwnTraces
