mod Common
pub mod Forms
pub mod Run
pub mod Basin
pub mod Grid
mod Pair
pub mod Theorem
mod Places
mod Shares
mod InOrder
pub mod Accepted
pub mod Exactly
mod Pairs
pub mod Gaps
mod Rowwise
pub mod Join
pub mod Admit
pub mod Quanta
pub mod Tables
pub mod Starts
mod StartRows
pub mod Clauses
mod Digits
mod FieldPlaces
mod Faults
pub mod Fields
mod Kept
mod Turns
mod Assembled
pub mod Spelt
pub mod Unique
pub mod Cut
mod Decimals
mod Completed
mod Wanted
pub mod WrittenLines
mod Decided
pub mod Verdicts
pub mod Totals
mod Faultless
pub mod Same
mod Made
pub mod Judged
