mod Common
mod FlatShapes
mod Walking
mod Left
mod Conditions
pub mod Bridges
mod Counts
pub mod Steps
mod FormsInOrder
mod Equations
mod KeptForms
pub mod Solutions
pub mod FinishedForms
mod WholeModels
pub mod Fractions
pub mod RowForms
pub mod Checks
mod Sums
pub mod Finishing
mod Scalings
pub mod Showing
pub mod Making
mod Multiplying
pub mod Products
mod Settings
mod Crossing
mod Failing
mod KeptNumbers
pub mod Turns
mod RowLaws
mod Placing
mod ChecksInOrder
mod Assembly
mod UnitLaws
mod WholeMachines
mod FormLaws
mod Made
mod Seen
pub mod FinishedMachines
pub mod OneMachine
mod Phases
mod VariableLaws
mod Branches
mod Assembled
