mod Common
pub mod Ranges
pub mod Quiet
pub mod Skipped
pub mod Lines
pub mod Silence
pub mod Changes
mod DiscreteChanges
pub mod NextVisit
pub mod Forced
pub mod LevelRows
pub mod Firsts
pub mod LightRows
pub mod Flags
pub mod Silences
pub mod EndRows
pub mod Goings
pub mod Starts
pub mod Kept
pub mod SameSlopes
pub mod DueFirsts
pub mod NextLevels
pub mod NamedRows
pub mod Risen
pub mod Overs
pub mod Readers
pub mod SomeRows
pub mod KnownRows
mod RunLines
pub mod RunEnds
pub mod FromStart
pub mod RuledRuns
