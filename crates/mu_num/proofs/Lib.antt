mod Common
pub mod Integers
pub mod Tests
pub mod SizeTests
pub mod Quotients
mod NearestCases
mod TickLaws
pub mod FirstTicks
pub mod NearLevels
mod Divisors
mod Kept
pub mod Lowest
pub mod Powers
mod Reading
mod Tokens
mod Decimals
pub mod CurveLaws
pub mod Writes
pub mod RisingNumbers
pub mod Tables
pub mod Sums
pub mod InPlace
