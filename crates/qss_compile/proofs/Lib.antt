mod Common
pub mod Deciding
mod Lexing
pub mod WellFormed
mod Orderings
mod Causal
mod Canonical
mod Answering
mod Lengths
mod Bridge
pub mod Singles
pub mod Existence
mod Listing
mod Tidy
mod Formed
mod Settled
