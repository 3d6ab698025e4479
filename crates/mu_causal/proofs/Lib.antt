mod Common
mod Passing
pub mod Listing
pub mod Rounds
pub mod Cycles
pub mod Elements
pub mod Orders
mod FlatShapes
pub mod FlatGraphs
mod GraphRows
mod Counting
