pub mod Prelude
-- the definitions of the contract of `finish`
pub mod FinalStatuses
