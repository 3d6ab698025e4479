pub mod Words
pub mod Prelude
-- the definitions of the main theorem, of `qss_main` and of runs of the program
pub mod Shares
pub mod MachineAnswers
pub mod CommandAnswers
pub mod Statuses
pub mod WrittenTexts
pub mod ReadAnswers
pub mod Calls
pub mod Sessions
-- the definitions for the contracts of the code
pub mod Tasks
pub mod CommandOutcomes
pub mod CertificateOutcomes
pub mod ComparisonOutcomes
pub mod CertifiedRuns
pub mod Frames
pub mod FileReadings
