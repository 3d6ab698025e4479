mod Common
mod Plain
mod LineRecords
mod Names
pub mod RowLines
pub mod KnownParts
pub mod WrittenLines
mod Simulated
