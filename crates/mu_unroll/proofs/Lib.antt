mod Common
mod Faulty
mod Totals
mod Rounding
mod Starts
mod Prefixes
mod Placing
pub mod Stepping
mod Numbering
mod FlatParts
mod Keeping
pub mod FlatModels
pub mod Listed
mod Walks
mod WalkSteps
mod Whole
mod Folding
mod FoldedParts
mod FoldedSteps
mod Orders
