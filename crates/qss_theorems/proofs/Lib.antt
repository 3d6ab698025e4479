mod Common
mod Listings
mod Courses
pub mod Printed
mod Names
mod Lines
mod SecondOrderLines
mod BoundLines
mod Certificates
mod Sources
mod Values
mod Kept
mod Expressions
mod AffectedStates
