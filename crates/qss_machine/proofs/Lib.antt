mod Common
mod WorkedRows
pub mod Near
pub mod Admitted
pub mod SumLaws
pub mod Fields
pub mod Loops
pub mod Few
pub mod WeightLaws
pub mod Fired
mod SlopeLaws
pub mod Distinct
pub mod ModeTests
pub mod Powers
pub mod ProductStates
pub mod Ranges
pub mod Rules
pub mod OneRun
mod Places
mod Marking
mod Halving
mod StateProducts
pub mod Among
pub mod KeptReaders
pub mod Unread
pub mod StartValues
