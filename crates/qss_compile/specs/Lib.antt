pub mod Words
pub mod Prelude
-- for theorems and callers
pub mod Causes
pub mod Phases
pub mod Compilation
pub mod RefusalLines
pub mod SourceLaws
-- logical views of the code
pub mod Fields
pub mod Flats
