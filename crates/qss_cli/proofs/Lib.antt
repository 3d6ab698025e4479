mod Taking
mod Worked
mod Found
pub mod CommandShares
