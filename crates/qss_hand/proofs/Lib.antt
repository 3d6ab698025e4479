mod Common
pub mod Targets
pub mod Branches
pub mod AfterStatements
pub mod Turns
mod Assigned
