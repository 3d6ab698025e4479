pub mod Prelude
pub mod RowTexts
pub mod PlainFields
pub mod Writers
pub mod HeldLines
pub mod Filters
pub mod Simulations
pub mod Writes
